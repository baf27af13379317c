-- The laws of sorts that the crates above cite.
pub mod Indices
pub mod Labels
pub mod Complete
pub mod Proper
pub mod Sound
pub mod Replace
pub mod Place
pub mod Strays
pub mod Walk
pub mod Theorems
