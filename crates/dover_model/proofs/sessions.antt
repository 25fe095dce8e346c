-- Sessions: their parts, what is due for a feed, and that a run has one.
pub mod SessionParts
pub mod Fullness
pub mod PutIn
pub mod Growing
pub mod Accounts
pub mod Emitting
pub mod Walks
pub mod NeverFull
pub mod JobSessions
pub mod Former
pub mod RunSessions
