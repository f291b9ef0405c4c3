-- What the answers of the calls say.
pub mod Answered
pub mod Cuts
pub mod Turned
pub mod Merged
pub mod Rooms
pub mod Readers
