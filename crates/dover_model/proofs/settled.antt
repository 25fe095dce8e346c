-- What is settled at a mark: barriers, paths of open steps, and what later jobs leave as it is.
pub mod Later
pub mod Settling
pub mod Barriers
pub mod Prefixes
pub mod Releasing
pub mod Onlines
pub mod LastSteps
pub mod Paths
pub mod Leading
pub mod Waiting
pub mod Horizons
