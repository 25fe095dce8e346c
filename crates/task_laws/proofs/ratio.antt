-- The competitive bound against jobs that need more or less, and under another ratio.
pub mod LongerJobs
pub mod SlowerLaws
pub mod FreeRatio
