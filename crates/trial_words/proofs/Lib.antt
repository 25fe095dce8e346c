mod Baiting
mod Summing
mod Turning
pub mod Putting
