-- Where a walk over a source and a look together stands, and what comes of it.
pub mod Pairs
pub mod Whole
