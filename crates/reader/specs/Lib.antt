-- What the reading of a file answers, and the words that it leaves.
pub mod Answers
pub mod Code
