pub mod Changed
pub mod ChangedPaged
pub mod Said
