-- The laws of terms as words that the crates above cite.
pub mod Readings
mod Lines
pub mod Parsing
pub mod Scan
pub mod Extents
mod Rows
mod Passed
pub mod TermTest
pub mod Comparing
pub mod Places
pub mod Theorems
mod Levels
mod Examples
