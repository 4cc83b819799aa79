pub mod Facts
pub mod Inner
pub mod Live
