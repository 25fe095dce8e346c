pub mod Decisions
pub mod Life
pub mod Given
pub mod Kept
pub mod Calls
pub mod Restarts
