-- The graphs of the cases.
pub mod Edges
