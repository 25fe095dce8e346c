pub mod Baiting
pub mod BaitingRuns
pub mod Kept
pub mod Links
