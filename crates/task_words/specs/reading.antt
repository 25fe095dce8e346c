pub mod Lines
pub mod Account
pub mod Faults
pub mod Keeping
pub mod Record
