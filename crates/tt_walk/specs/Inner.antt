-- Definitions on which no part of the trusted statement rests.
pub mod Pairs
pub mod Settled
pub mod Standings
