-- The laws of declarations that the crates above cite.
pub mod UpTo
pub mod Entries
pub mod Put
mod Stores
pub mod Kept
pub mod Grown
pub mod Theorems
mod Samples
