pub mod Sums
pub mod Noting
pub mod Reading
pub mod Charges
pub mod Counted
