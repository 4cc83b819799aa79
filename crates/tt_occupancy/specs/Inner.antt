-- Definitions on which no part of the trusted statement rests.
pub mod Counted
pub mod Fields
pub mod NeighbourCounts
pub mod Weights
