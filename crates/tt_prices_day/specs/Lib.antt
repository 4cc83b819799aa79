pub mod Inner
pub mod Shapes
