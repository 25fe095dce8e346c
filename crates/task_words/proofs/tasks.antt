pub mod Counting
pub mod Released
pub mod Releases
pub mod Merging
pub mod Together
