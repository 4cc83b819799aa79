pub mod Inner
pub mod Names
pub mod Puts
pub mod Reports
