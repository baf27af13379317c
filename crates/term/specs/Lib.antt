-- The definitions that the contracts of `term` cite, in the order of document 01, "Terms as words".
pub mod Heads
pub mod Trees
pub mod Parts
pub mod Terms
pub mod Statements
pub mod Code
