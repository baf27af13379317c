-- What is read off the words of a typed part.
pub mod Bodies
pub mod Reading
pub mod Statements
