pub mod Factors
pub mod Least
pub mod Roots
