pub mod Kept
pub mod Texts
