-- What the exported calls hand on.
pub mod Copied
