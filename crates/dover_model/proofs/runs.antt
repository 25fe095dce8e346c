-- Whole runs: that they end, what each of their steps meets, and how often things happen.
pub mod RunLaws
pub mod Potential
pub mod Ending
pub mod ReleaseCounts
pub mod FreelySpending
pub mod Serving
pub mod Orderly
pub mod Underload
pub mod Runs
pub mod Released
pub mod WaitingMoves
pub mod Spending
pub mod Once
pub mod Honest
pub mod Calm
pub mod OneDensity
pub mod PrintedCounts
