-- The laws of a piece.
pub mod Spans
