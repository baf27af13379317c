-- How the code does it: nothing here is needed to read the promise of the entries.
pub mod Building
pub mod Site
pub mod Making
pub mod Running
