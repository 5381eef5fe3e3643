pub mod Asking
pub mod Laid
pub mod Leads
pub mod Numbers
pub mod Putting
pub mod Texts
pub mod Words
