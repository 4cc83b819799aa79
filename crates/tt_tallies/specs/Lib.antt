pub mod Bag
pub mod Inner
pub mod Tallies
pub mod Weight
