pub mod Chunks
mod Examples
pub mod Given
pub mod Growing
pub mod Harmless
pub mod Inert
pub mod QuotedChunks
pub mod Windows
