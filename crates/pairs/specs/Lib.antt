-- Automata in lent words, and what the search over pairs of their states says.
pub mod Table
pub mod Pairs
pub mod Room
pub mod Marks
