pub mod Answering
pub mod Talking
