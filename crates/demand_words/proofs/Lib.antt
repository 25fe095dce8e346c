pub mod Sharing
pub mod Sizes
pub mod Dividing
pub mod Limited
pub mod Talking
