-- Automata for forms, and what they tell of views.
pub mod Automaton
pub mod Coded
pub mod Told
