pub mod Groups
pub mod Inner
pub mod Moves
pub mod Week
