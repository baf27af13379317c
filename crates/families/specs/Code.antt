-- How the code does it: nothing here is needed to read the promise of the entry.
pub mod Children
pub mod Families
