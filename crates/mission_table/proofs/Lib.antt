pub mod Enrolled
pub mod Fleet
pub mod Linked
pub mod Marks
pub mod Rows
pub mod Steps
pub mod Taken
