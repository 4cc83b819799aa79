pub mod AgainLaws
pub mod ByteLaws
pub mod DepthLaws
pub mod Examples
pub mod FitLaws
pub mod TextLaws
pub mod TokenLaws
