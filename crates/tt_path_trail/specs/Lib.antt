pub mod Inner
pub use Rattle.tt_path.specs.Facts
pub use Rattle.tt_path.specs.Live
pub use Rattle.tt_path.specs.Inner.Nested
pub use Rattle.tt_path.specs.Inner.Paths
