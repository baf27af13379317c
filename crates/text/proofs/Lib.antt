-- The laws of text that the crates above cite.
mod Scanned
pub mod Decimals
pub mod Cutting
pub mod Written
pub mod Told
pub mod Tokened
