pub mod Boarding
pub mod Crews
pub mod Groups
pub mod Leaving
pub mod Rounds
pub mod Shared
