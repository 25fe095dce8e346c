pub mod Talk
pub mod Line
pub mod Spending
pub mod Talking
