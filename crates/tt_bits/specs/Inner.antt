-- Definitions on which no part of the trusted statement rests.
pub mod Bits
pub mod TrailStates
pub mod Undone
