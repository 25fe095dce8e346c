pub mod Sure
pub mod Slower
pub mod Switches
pub mod Forward
pub mod Sections
pub mod HardWork
pub mod Demand
pub mod Recovery
