pub mod Lines
pub mod Account
pub mod Keeping
pub mod Says
pub mod Talk
