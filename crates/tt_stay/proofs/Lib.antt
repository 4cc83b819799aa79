pub mod Rearranging
mod Weighing
