pub mod Talking
pub mod Ending
pub mod Spending
