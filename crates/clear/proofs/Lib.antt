-- Views laid into automata, and their conditions.
pub mod Laying
pub mod Filling
pub mod Lengths
pub mod FormNodes
pub mod TextNodes
pub mod Asking
pub mod ViewNodes
pub mod Views
pub mod Sides
pub mod Telling
