-- The records that stand in words after one was written.
pub mod Writes
