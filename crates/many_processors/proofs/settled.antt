-- What no later job changes, and what a server that is fed as it goes needs of open steps.
pub mod Later
pub mod Settling
pub mod Prefixes
pub mod Onlines
pub mod Finishes
pub mod MarkTick
pub mod AtMark
pub mod Again
pub mod Meeting
pub mod OverFor
