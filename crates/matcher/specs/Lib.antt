-- The matcher: the words of a left side against the words of a term.
pub mod Matching
pub mod Statements
