pub mod Read
pub mod Fronts
pub mod Accounts
pub mod Taking
pub mod Declaring
pub mod Ending
