-- Traces and verdicts: what a trace names, and which texts are accepted.
pub mod ShortNumbers
pub mod Named
pub mod NamedJobs
pub mod TraceEnds
pub mod Accepting
pub mod WrongStays
pub mod AcceptedTexts
