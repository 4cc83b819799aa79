pub mod Numbers
pub use Rattle.tt_leaf.specs.Ranges
