pub mod Checking
pub mod Passing
pub mod Walking
pub mod Measuring
pub mod KeptRows
pub mod Alike
