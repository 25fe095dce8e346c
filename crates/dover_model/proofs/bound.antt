-- The competitive bound: numbers below a root, schedules tick by tick, and the books of a run.
pub mod Calculus
pub mod LeastBound
pub mod Counting
pub mod Books
pub mod Augmented
pub mod Booking
pub mod Closing
pub mod Booked
pub mod BookedRun
pub mod BoundLaws
pub mod GreatestLaws
