-- How a file is read line by line: what only the contracts of private functions cite.
pub mod Reached
