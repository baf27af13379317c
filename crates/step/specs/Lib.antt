-- The single step, and the run of a derivation's steps.
pub mod Alike
pub mod Answers
pub mod Calls
pub mod Previews
pub mod Runs
pub mod Derivations
pub mod Statements
pub mod Examples
pub mod Code
