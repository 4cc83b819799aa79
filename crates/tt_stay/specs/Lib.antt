pub mod Rearranged
pub mod Staying
