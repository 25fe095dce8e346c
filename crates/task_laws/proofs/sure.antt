-- Jobs that are never lost: what holds the processor, and what a job has to be heavy against.
pub mod Stacks
pub mod Sure
pub mod Labels
pub mod Streams
