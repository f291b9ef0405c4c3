-- Reachability along the edges of a graph, and the search that marks what is reached.
pub mod Reach
pub mod Graphs
pub mod Search
pub mod Closed
