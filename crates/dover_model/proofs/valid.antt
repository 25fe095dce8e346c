-- What is valid: the limits of a ratio and of jobs, and what a further job keeps.
pub mod JobLimits
pub mod Dues
pub mod ValidParts
pub mod Limiting
pub mod Valid
pub mod Admitting
