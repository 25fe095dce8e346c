pub mod tasks
pub mod reading
pub mod unroll
pub mod sure
pub mod asking
pub mod budget
