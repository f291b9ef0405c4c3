-- What the exported calls promise: the number of an answer, and that the call's own promise holds of that answer.
pub mod Codes
pub mod Parses
