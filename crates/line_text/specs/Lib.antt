pub mod Cutting
pub mod Reading
pub mod Writing
pub mod feeds
pub mod traces
