-- That a text is read through sets of states, and that what is read so far can be completed.
pub mod Ranges
pub mod Fronts
pub mod Splitting
pub mod Completing
pub mod Scanning
pub mod Sets
pub mod Following
