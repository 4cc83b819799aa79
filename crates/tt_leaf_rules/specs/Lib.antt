pub mod Bounds
pub mod Claims
pub mod Faults
pub mod Inner
pub mod Leaves
pub mod Outcomes
pub mod Tests
