-- The digits of words, the scan for a bit, and the tables that a write leaves.
pub mod Fields
pub mod Scans
pub mod Tables
