pub mod Drawn
pub mod Turning
