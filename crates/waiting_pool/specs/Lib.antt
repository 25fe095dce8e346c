pub mod Reordered
pub mod Short
pub mod Slots
pub mod Pools
