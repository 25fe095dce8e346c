pub mod Stretches
pub mod Collecting
pub mod Pricing
