pub mod BestSet
pub mod Search
