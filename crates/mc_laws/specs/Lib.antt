pub mod Events
pub mod Versions
