-- From a part of a view in a source and in a look to its parts, and from what these come to, to what it comes to.
pub mod Descending
pub mod Joining
pub mod Going
pub mod Series
pub mod Wholes
