pub mod Added
pub mod Claims
pub mod Files
pub mod Groups
pub mod Nodes
pub mod Prices
pub mod Targets
