-- Views laid into automata, and the conditions of a clear view on each side.
pub mod Sides
pub mod Filled
pub mod Verdict
