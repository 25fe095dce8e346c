pub mod Names
pub mod Tasks
pub mod Limits
pub mod Merging
