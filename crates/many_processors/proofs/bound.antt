-- What no schedule of as many processors exceeds, over any books: no machine is looked at here.
pub mod Ticks
pub mod Aside
pub mod Copies
pub mod Sharing
pub mod Summing
pub mod Chains
pub mod Bounding
pub mod Dealing
