-- What changes to a table leave, and how the search over pairs of states answers.
pub mod Tables
pub mod Edges
pub mod Marking
pub mod Meeting
pub mod Crossing
