-- The laws of the reading.
mod Named
mod Behind
mod Fields
mod Held
mod Keyed
mod Walked
mod Entered
