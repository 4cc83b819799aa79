pub mod Alone
pub mod Inner
pub mod Outcomes
pub mod Proofs
