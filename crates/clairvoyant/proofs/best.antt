pub mod Rising
pub mod Values
pub mod Lifting
pub mod Searching
mod BestRows
