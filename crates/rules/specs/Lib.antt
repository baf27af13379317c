-- The rules of source document 002 by the numbers of document 01, and what a step does.
pub mod Patterns
pub mod Table
pub mod Instances
pub mod Rewrite
pub mod Steps
pub mod Outcomes
pub mod Statements
pub mod Code
