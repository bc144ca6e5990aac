pub mod Legality
pub mod Points
pub mod Rows
pub mod Verdicts
