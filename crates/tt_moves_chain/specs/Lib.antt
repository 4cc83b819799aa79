pub mod Answers
pub mod Chains
pub mod Marks
