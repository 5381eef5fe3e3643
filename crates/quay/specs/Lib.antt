pub mod Rules
pub mod Matches
pub mod Cranes
