-- Reachability: that the search marks exactly what is reached, and that it can be told of a finite graph.
pub mod Paths
pub mod Misses
pub mod Advances
pub mod Decide
