pub mod Entries
pub mod Neighbours
pub mod Nodes
pub mod Slots
pub mod Arena
pub mod Shown
pub mod ClassState
pub mod ClassCalls
