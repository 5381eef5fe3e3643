pub mod Batches
pub mod Ending
