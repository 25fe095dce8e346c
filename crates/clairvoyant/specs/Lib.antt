pub mod feasible
pub mod best
pub mod overload
