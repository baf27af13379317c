-- Runs of words, and lists by number.
pub mod Words
pub mod Listed
