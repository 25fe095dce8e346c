pub mod Changing
pub mod Held
pub mod Follows
pub mod Roles
pub mod Steps
pub mod Moves
pub mod Releases
pub mod Walking
