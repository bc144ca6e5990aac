pub mod Joined
pub mod Held
pub mod IllegalRows
