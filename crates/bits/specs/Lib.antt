-- A table of bits in words.
pub mod Bits
