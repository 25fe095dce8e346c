-- Runs of small feeds, by computation.
pub mod SmallRows
pub mod MadeUpRows
