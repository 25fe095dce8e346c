mod Giving
mod Since
mod InLives
pub mod Lives
pub mod Doing
pub mod LifeLaws
pub mod Succeeding
pub mod Restarting
