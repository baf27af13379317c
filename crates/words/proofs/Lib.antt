-- The laws of runs of words that the crates above cite.
pub mod Runs
pub mod Listed
mod Examples
