-- Viable prefixes, and sets of states that are read through a text.
pub mod Bytes
pub mod Moves
pub mod Viable
pub mod States
