pub mod Demanded
pub mod Looks
pub mod Says
pub mod Talk
