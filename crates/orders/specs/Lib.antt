pub mod Counted
pub mod Numbers
pub mod Texts
