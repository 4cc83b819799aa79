pub mod Descent
pub mod Idle
pub mod Inner
