pub mod Rounds
pub mod Feeding
pub mod Parting
pub mod Ending
