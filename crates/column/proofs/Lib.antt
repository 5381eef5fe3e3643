pub mod Little
pub mod Records
pub mod Octets
