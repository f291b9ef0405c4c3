-- Rows: how views stand in bytes, and what the reader of rows says.
pub mod Rows
pub mod Stands
pub mod Parts
pub mod Nodes
pub mod Reads
pub mod Cases
