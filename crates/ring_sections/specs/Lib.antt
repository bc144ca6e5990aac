pub mod Answer
pub mod Leading
pub mod Levels
pub mod Marking
pub mod Ring
pub mod Search
pub mod Waiting
