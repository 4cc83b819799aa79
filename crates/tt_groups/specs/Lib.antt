pub mod Group
pub mod Listed
pub mod Places
pub mod Plans
pub mod Tables
