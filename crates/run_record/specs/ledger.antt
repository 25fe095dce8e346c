pub mod Rooms
pub mod Pages
