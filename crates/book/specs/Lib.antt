pub mod Winners
pub mod Batches
pub mod Declines
pub mod Emission
pub mod Calls
