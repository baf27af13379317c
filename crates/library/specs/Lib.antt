-- The library's answers as numbers.
pub mod Numbers
