pub mod Says
pub mod Spending
