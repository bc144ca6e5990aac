pub mod Verdicts
pub mod Walks
pub mod Joined
pub mod ToldKnots
pub mod Rows
