-- The words of a tree; what begins a text, node by node; and that the passes find it out.
pub mod Words
pub mod Decisions
pub mod Begins
pub mod Stacks
pub mod Told
pub mod Kept
pub mod Within
pub mod Right
pub mod Marks
pub mod Tables
