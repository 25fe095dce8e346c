pub mod Filling
pub mod Joining
pub mod Stepping
pub mod Numerators
pub mod Telling
pub mod WorkedRows
pub mod Threading
pub mod Drawing
