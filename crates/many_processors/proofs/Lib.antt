pub mod steps
pub mod runs
pub mod bound
pub mod books
pub mod settled
pub mod rows
