pub mod Counted
pub mod Standing
pub mod Texts
pub mod Unpaid
