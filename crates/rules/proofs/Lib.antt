-- The laws of rules and steps that the crates above cite.
pub mod Marks
pub mod Lines
pub mod Types
pub mod Meanings
pub mod Forests
pub mod FamilyTypes
mod Gatherings
mod Gathered
pub mod FamilyMeanings
mod Additive
pub mod Spreading
mod Summing
pub mod Every
pub mod AllTypes
pub mod AllMeanings
pub mod Known
pub mod Good
pub mod Opening
pub mod Matching
pub mod Decided
pub mod Formed
mod Parts
pub mod Rules
pub mod Outcomes
pub mod Steps
mod Samples
