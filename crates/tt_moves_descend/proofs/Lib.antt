mod Costs
mod Days
pub mod Descents
pub mod Examples
pub mod Gains
pub mod Scans
pub mod Settling
pub mod Still
