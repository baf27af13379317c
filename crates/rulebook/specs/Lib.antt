-- The code's table of rules. What to believe is `table` of `rules` Table.
pub mod Code
