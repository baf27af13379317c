-- The rules that are no equation, at the part with which words begin.
pub mod Writing
pub mod Code
