pub mod Exchanges
pub mod Script
pub mod Calls
pub mod Source
pub mod Run
pub mod Progress
pub mod Upkeep
