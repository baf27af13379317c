-- How the code reads a file: what only the contracts of private functions cite.
pub mod Keys
pub mod Lines
pub mod Holding
