pub mod Adding
pub mod AddingBoth
pub mod Answering
pub mod DerivedBounds
pub mod Rewriting
pub mod Validating
