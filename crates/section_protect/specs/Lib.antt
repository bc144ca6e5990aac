pub mod Protects
pub mod Rounds
