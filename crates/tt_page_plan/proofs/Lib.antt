pub mod Counting
pub mod Examples
pub mod First
pub mod InOrder
pub mod Later
pub mod Neighbours
pub mod Passing
