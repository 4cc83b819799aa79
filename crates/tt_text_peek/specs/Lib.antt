pub mod Fronts
pub mod Inner
pub mod Memories
