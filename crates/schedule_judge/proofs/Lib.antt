pub mod Accounts
pub mod Reading
pub mod Worth
pub mod Simulating
pub mod RunTexts
