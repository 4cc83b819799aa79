-- Definitions on which no part of the trusted statement rests.
pub mod CheckedPart
pub mod Pending
pub mod Steps
