-- What the jobs of tasks ask for in a window, and when a run comes to rest.
pub mod Demanding
pub mod Recovering
