pub mod Talk
pub mod Record
pub mod Opening
pub mod Keeping
