pub mod Doubling
pub mod Marks
pub mod Roster
pub mod Seen
pub mod Ways
