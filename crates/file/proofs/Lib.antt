-- The proofs about the replay.
mod Late
mod Behind
mod Single
mod Sides
mod Decided
mod Replayed
mod Answered
mod Accepting
mod Keeping
mod Performed
pub mod Demands
mod Clauses
