-- The text of a file: its bytes, the pieces between separators, decimal numbers, and tokens.
pub mod Bytes
pub mod Pieces
pub mod Numbers
pub mod Tokens
