pub mod Notices
pub mod Slots
pub mod Seen
pub mod Accumulators
pub mod Walk
pub mod Leaving
pub mod Conversions
pub mod Reached
