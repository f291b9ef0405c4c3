-- Forms as trees in words, the texts that their stacks fit, and what the passes over a text find.
pub mod Nodes
pub mod Tree
pub mod Ready
pub mod Rows
pub mod Rules
pub mod Cells
