pub mod LongDivision
pub mod Reordering
pub mod Places
pub mod Pooling
