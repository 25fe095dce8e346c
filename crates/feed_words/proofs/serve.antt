pub mod Listing
pub mod Snapped
pub mod Talking
pub mod Putting
