pub mod Weeks
