-- Cuts of a text, and the marks that are made of them.
pub mod Cuts
pub mod Tables
pub mod Sound
pub mod Places
pub mod Passing
pub mod Ends
pub mod Parts
