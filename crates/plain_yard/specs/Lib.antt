pub mod Keeps
pub mod Lines
pub mod Rounds
