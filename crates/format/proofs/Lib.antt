-- The laws of the form of a file.
pub mod Declared
pub mod Stepped
pub mod Padded
mod Known
mod Limits
mod Variables
mod Moves
pub mod Values
pub mod Lines
mod Runs
mod Stated
pub mod Reached
mod Rows
mod Plain
pub mod Codes
pub mod Whole
mod Samples
