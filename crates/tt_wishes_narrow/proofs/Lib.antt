pub mod Apart
pub mod Counted
mod Elsewhere
pub mod Examples
pub mod Keeping
mod Numbers
pub mod Once
pub mod Reasons
pub mod RowLists
pub mod Splitting
mod Taking
