pub mod serve
pub mod resume
