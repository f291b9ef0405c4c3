-- What is lent to a call, and what comes of it.
pub mod Room
pub mod Results
