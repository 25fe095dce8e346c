pub mod Links
pub mod Jobs
pub mod Game
pub mod Kept
pub mod Rows
pub mod Answers
