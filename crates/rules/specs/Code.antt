-- What only the code and its contracts need of the rules.
pub mod Conditions
