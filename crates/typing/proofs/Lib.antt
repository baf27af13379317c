-- The laws of typing that the crates above cite.
mod Lying
mod Binding
mod Straying
mod Leaves
mod Concluding
mod Putting
mod Packing
mod Passing
mod Walked
mod Deciding
mod Answering
pub mod Theorems
mod Samples
