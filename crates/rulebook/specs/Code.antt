-- How the code holds the table of rules: nothing here is needed to read what is claimed.
pub mod Rows
