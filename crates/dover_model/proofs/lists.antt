-- Lists, tests and sums: facts in which no job stands.
pub mod Tests
pub mod FirstOfTasks
pub mod Members
pub mod InPlace
pub mod Taking
pub mod Beginnings
