-- Definitions on which no part of the trusted statement rests.
pub mod Counts
pub mod Links
pub mod Neighbours
pub mod Tables
