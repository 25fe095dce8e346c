pub mod Baited
pub mod Drawing
pub mod Dueled
pub mod Lists
pub mod Record
pub mod Tallied
