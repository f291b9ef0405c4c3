-- What it means that the tree of a side has grown from a row.
pub mod Grown
pub mod Planted
