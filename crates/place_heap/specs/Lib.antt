pub mod Items
pub mod Ranks
pub mod Orders
pub mod Table
pub mod HeapOrder
pub mod Kept
