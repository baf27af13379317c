-- The replay of a file, and the three demands.
pub mod Replays
pub mod Files
pub mod Demands
