pub mod Putting
pub mod Questions
pub mod Texts
pub mod Talk
pub mod Keeping
pub mod Spending
