-- The laws of stepping.
mod Indices
mod Pieces
mod Right
mod Sited
mod Conditions
mod Equated
mod Dispatched
mod Limits
mod Putting
mod Stepped
pub mod Held
mod Taking
mod Previewed
mod Moving
mod Begun
mod Courses
mod Alike
pub mod Theorems
pub mod RunTheorems
pub mod Examples
