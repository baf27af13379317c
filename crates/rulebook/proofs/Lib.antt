-- The laws of the code's table of rules.
pub mod Rows
pub mod Made
pub mod Copied
