pub mod Counts
pub mod Exported
pub mod Inspected
pub mod KeptPaged
pub mod Lines
pub mod Paged
pub mod Reported
