pub mod Comparing
pub mod Firsts
pub mod Joining
pub mod Refusing
pub mod Seeking
pub mod Spread
