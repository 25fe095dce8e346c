pub mod Talk
pub mod Keeping
