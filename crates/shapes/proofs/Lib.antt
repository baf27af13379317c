-- The laws of the reading that the crates above cite.
mod Steps
mod Declared
mod Digits
mod Nodes
pub mod Begun
mod Bodies
mod Walks
pub mod Theorems
