-- The typing rules as a table. What to believe is `◌⊢◌∶◌` of `types` Rules.
pub mod Code
