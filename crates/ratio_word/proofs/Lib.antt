pub mod Accounts
pub mod Declaring
pub mod Ended
pub mod Offering
pub mod Puts
pub mod Said
pub mod Taking
