-- What is lent to the run of a derivation.
pub mod Lent
pub mod Faults
pub mod Refusals
pub mod Statements
