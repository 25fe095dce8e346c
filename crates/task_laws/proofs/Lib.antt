pub mod sure
pub mod switches
pub mod ratio
pub mod demand
pub mod hard
pub mod rows
