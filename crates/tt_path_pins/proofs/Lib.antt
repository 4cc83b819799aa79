pub mod FactTable
pub mod Grid
pub mod Joined
pub mod Earlier
pub mod Pinned
pub mod Shown
