pub mod Talk
pub mod Record
pub mod Keeping
pub mod Spending
