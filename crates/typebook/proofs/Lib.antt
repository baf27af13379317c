-- The laws of the table of typing rules.
pub mod OnShapes
pub mod Rows
