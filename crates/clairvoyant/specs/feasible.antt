pub mod Queue
pub mod Feasibility
pub mod Progress
