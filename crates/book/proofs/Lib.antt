pub mod Winning
pub mod Following
pub mod ByGroup
