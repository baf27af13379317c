-- Matrices over a commutative semiring with an involution, and the Gaussian integers.
pub mod Semirings
pub mod Sums
pub mod Matrices
pub mod Gaussian
