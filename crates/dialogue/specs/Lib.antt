pub mod Talk
pub mod Turns
pub mod Sizes
pub mod Reading
pub mod Taking
