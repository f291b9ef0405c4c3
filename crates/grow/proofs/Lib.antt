-- How trees grow, node by node, and what stands behind each node.
pub mod Growing
pub mod Planting
pub mod Parts
pub mod Texts
pub mod EachKind
