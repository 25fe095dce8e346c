pub mod Given
pub mod Entries
pub mod Runs
pub mod Onlines
pub mod Counting
pub mod Leading
pub mod Queueing
pub mod Choosing
pub mod OneRuns
pub mod NoneRuns
mod PolicyRows
