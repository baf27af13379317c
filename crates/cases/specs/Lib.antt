-- What the functions on slices make of them.
pub mod Slices
