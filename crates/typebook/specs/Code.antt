-- How the code holds the typing rules: nothing here is needed to read what is claimed.
pub mod Shapes
pub mod Lines
