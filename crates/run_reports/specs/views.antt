pub mod Templates
pub mod Why
pub mod Stays
pub mod Book
pub mod Timeline
