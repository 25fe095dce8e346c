pub mod judge
pub mod report
pub mod schedule
