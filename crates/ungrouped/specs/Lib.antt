pub mod Rows
pub mod Held
pub mod Calls
pub mod Found
pub mod Accumulators
pub mod Runs
pub mod Reached
