pub mod BestKept
pub mod Inner
pub mod SolvedKept
