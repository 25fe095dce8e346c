pub mod intervals
pub mod ledger
