pub mod Small
pub mod Beside
pub mod LeftJobs
pub mod Rows
pub mod Rivals
pub mod Tellings
pub mod Promised
