-- Definitions on which no part of the trusted statement rests.
pub mod Days
pub mod Faults
pub mod Fold
pub mod Sorted
