pub mod Budgets
pub mod Lines
pub mod Kept
