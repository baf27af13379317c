-- How the code does it: nothing here is needed to read the promises.
pub mod Deepest
pub mod Lines
pub mod Rows
