pub mod Putting
pub mod Ending
pub mod Spending
