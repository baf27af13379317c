-- The laws of sums and matrices that the crates above cite.
mod Commutative
pub mod Semirings
mod Digits
pub mod Sums
pub mod Deltas
pub mod Alike
pub mod Shapes
pub mod Linear
pub mod Products
pub mod Ranges
pub mod Scalars
pub mod Kronecker
pub mod Combined
mod Integers
pub mod Gaussian
