-- Hard work, which has the processor as soon as it comes, and what it leaves to a run.
pub mod HardWork
pub mod StandingClock
