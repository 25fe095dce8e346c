pub mod Serving
pub mod NextStep
pub mod Running
pub mod Roster
pub mod Rostering
