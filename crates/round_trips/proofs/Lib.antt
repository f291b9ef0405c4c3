-- What the answers of the calls say of each other.
pub mod Certain
pub mod Trips
