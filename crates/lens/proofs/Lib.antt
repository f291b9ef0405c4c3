-- The theory of views, from lists up to the theorems of specs/Laws.
pub mod Texts
pub mod Inversions
pub mod Lawful
pub mod Sides
pub mod Works
pub mod Edits
pub mod Cuts
pub mod Cases
pub mod Needed
