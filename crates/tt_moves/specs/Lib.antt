pub mod Changes
pub mod Inner
pub mod Pricing
pub mod Steps
