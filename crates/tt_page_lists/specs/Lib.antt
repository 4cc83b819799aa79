pub mod Grouped
pub mod Items
pub mod Lists
pub mod Reasons
pub mod Rules
