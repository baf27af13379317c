-- The laws of slices of a case.
mod Slices
