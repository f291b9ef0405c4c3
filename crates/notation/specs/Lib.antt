-- What the contracts of the notation's reader cite.
pub mod Built
pub mod Written
pub mod Tokens
pub mod Progress
pub mod Places
