-- What copying rows does to bits, and what remembered steps give.
pub mod Rows
pub mod Recalled
pub mod Going
