pub mod Taken
pub mod Showing
pub mod Telling
pub mod Deciding
