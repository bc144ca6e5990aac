pub mod Bounds
pub mod Cells
pub mod Each
pub mod Extremes
pub mod Places
pub mod Reasons
pub mod Sums
pub mod Ways
