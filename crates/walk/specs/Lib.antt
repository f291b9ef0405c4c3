-- What a text of one side of a view turns into, where the walk stands that gives it, and where it goes.
pub mod Turns
pub mod Spans
pub mod Walks
pub mod Counts
pub mod Writes
pub mod Delivers
pub mod Turned
