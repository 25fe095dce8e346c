pub mod Snapshot
pub mod Reading
pub mod Stored
pub mod Forms
pub mod Pausing
pub mod Kept
pub mod Spending
pub mod Feeds
