-- From a part of a view to its parts, and from what these turn into to what it turns into.
pub mod Pieces
pub mod Holding
pub mod Descending
pub mod Giving
pub mod Going
pub mod Choosing
pub mod Writing
pub mod Texts
pub mod Delivering
