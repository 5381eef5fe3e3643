pub mod Seen
pub mod Fronts
pub mod Keepers
pub mod Replies
