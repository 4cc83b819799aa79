pub mod Days
pub mod Grids
pub mod Lectures
pub mod Marks
pub mod Named
