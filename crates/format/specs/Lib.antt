-- What a file says, how it is written and how it is read.
pub mod Files
pub mod Reading
pub mod Statements
pub mod Kept
pub mod Code
