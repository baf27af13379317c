-- The answer of the typing of one term, and what is proved of it.
pub mod Answers
pub mod Statements
pub mod Code
