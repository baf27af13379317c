-- The laws of the matcher.
mod Walks
mod Left
pub mod Theorems
