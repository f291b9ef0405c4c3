-- Rows of bits in slots, and the steps between them that are remembered.
pub mod Slots
pub mod Recalls
pub mod Memory
