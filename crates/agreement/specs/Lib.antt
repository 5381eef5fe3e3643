pub mod Passable
pub mod Deciding
pub mod Room
