pub mod Least
pub mod Roots
