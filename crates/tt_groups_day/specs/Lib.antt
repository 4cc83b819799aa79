pub mod Choosing
pub mod Counting
pub mod Entries
pub mod Found
pub mod Running
pub mod Sets
pub mod Shapes
pub mod Work
