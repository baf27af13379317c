-- The laws of the families.
mod Split
mod Whole
mod Walk
mod Heads
mod Tested
mod Few
pub mod Written
mod Next
mod Removed
mod Absorbed
mod Merged
mod Swapped
mod Spread
mod Summands
mod Pairs
mod Multiples
mod Matched
mod Collected
mod Gathered
pub mod Lines
mod Distributed
mod Dispatched
pub mod Depths
pub mod Theorems
