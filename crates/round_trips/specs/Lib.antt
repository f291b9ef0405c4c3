-- What two calls in a row promise.
pub mod Trips
