-- Runs that fall apart where no job is open, runs in turn, and runs moved in time.
pub mod Shifting
pub mod Moving
pub mod Resting
pub mod Apart
pub mod Turns
pub mod RestTick
pub mod Parting
pub mod InTurns
pub mod TurnSchedules
pub mod TurnsGrowing
pub mod TurnsLosing
pub mod Anew
