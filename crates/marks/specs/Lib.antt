-- How a text is cut into the parts of a tree, and the marks that remember it.
pub mod Cut
pub mod Tables
pub mod Passes
