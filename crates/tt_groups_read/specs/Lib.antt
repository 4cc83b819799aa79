pub mod Faults
pub mod Readers
pub mod Reading
pub mod Reads
pub mod Spelling
