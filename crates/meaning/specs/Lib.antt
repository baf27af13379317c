-- What a term stands for: document 01, the section of that name.
pub mod Choices
pub mod Meaning
pub mod Sorted
pub mod Statements
