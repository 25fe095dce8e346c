-- The books of a run: each kind of step keeps them, so a run that ends has them.
pub mod Booked
pub mod Moved
pub mod MovedSteps
pub mod TakenSteps
pub mod OverSteps
pub mod DoneSteps
pub mod TickSteps
pub mod StepBooks
pub mod RunBooks
