pub mod trial
pub mod bait
pub mod duel
