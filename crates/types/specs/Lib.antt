-- Sorts, the published typing rules, and the type of a term.
pub mod Sorts
pub mod Rules
pub mod Inside
pub mod TypeOf
pub mod First
pub mod Strays
pub mod Statements
