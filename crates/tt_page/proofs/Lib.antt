pub mod Examples
pub mod Kept
pub mod Pieces
