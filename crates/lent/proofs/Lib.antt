-- The laws of what is lent.
pub mod Lending
pub mod Tests
pub mod Judging
