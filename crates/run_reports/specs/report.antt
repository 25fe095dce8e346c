pub mod Counts
pub mod Early
pub mod Fates
pub mod Findings
pub mod Kept
pub mod Lines
pub mod Rows
pub mod Courses
