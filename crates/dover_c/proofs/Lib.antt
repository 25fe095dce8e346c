pub mod Steps
pub mod Exports
pub mod Lends
pub mod Makes
pub mod Acts
mod Programs
