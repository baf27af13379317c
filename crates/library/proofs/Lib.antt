-- The laws behind the library's functions.
mod Copies
mod Tests
