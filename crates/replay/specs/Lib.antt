pub mod Texts
pub mod Fresh
pub mod Playing
