-- One step on several processors: what each processor sees of it, its cases, and that it keeps a state sound.
pub mod Seeing
pub mod Cases
pub mod Beside
pub mod Turning
pub mod Placing
pub mod Kept
pub mod Keeping
pub mod Stepping
pub mod Turns
