-- Jobs that finish early: where a finish is right, and what a further one leaves as it is.
pub mod Finishing
pub mod Readiness
pub mod Needing
pub mod Meeting
pub mod Further
pub mod OverPaths
pub mod OverFor
pub mod RightFinishes
pub mod Early
pub mod EarlyEnds
pub mod Processors
