pub mod Jobs
pub mod Legal
pub mod Account
pub mod Keeping
