-- The laws of meaning that the crates above cite.
pub mod Sameness
pub mod Shapes
pub mod Congruence
pub mod Theorems
pub mod Fitting
mod Samples
