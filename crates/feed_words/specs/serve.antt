pub mod Talk
pub mod Listing
pub mod Keeping
pub mod Spending
