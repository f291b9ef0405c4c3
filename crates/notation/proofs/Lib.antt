-- Lemmas that the proofs of several functions share.
mod Building
mod Spelling
mod Placing
