-- Lines and numerals: how texts are cut, and what is read back of a line that was written.
pub mod Cuts
pub mod GrowingTexts
pub mod Numerals
pub mod Fields
pub mod FeedLines
pub mod TraceLines
pub mod ReadShort
pub mod NoFeeds
