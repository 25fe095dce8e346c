pub mod FeedTexts
pub mod Refusals
pub mod Sizes
