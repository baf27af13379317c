-- Declarations as a caller lends them, and what putting a name into them does.
pub mod Declarations
pub mod Put
pub mod Statements
