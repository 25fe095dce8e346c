pub mod Texts
pub mod Counting
pub mod Densities
pub mod Losses
pub mod Sizing
pub mod Tables
pub mod CourseReading
pub mod WorkedRows
