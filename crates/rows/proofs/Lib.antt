-- How rows are read, and that bytes say at most one view.
pub mod Builds
pub mod Tags
pub mod Unique
pub mod Heads
pub mod Whole
