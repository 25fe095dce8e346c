-- Worked rows, by computation.
pub mod SureRows
pub mod SwitchRows
pub mod SectionRows
pub mod SlowerRows
pub mod HardRows
