pub mod Bounded
pub mod Checked
pub mod Rewritten
pub mod Summed
pub mod Validated
