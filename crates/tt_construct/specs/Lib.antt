pub mod Constructed
pub mod Inner
