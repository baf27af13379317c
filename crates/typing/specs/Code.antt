-- How the code does it: nothing here is needed to read the promise of `type_term`.
pub mod Shapes
pub mod Chains
pub mod Conclude
pub mod Verdicts
pub mod Strays
