pub mod Alone
pub mod Bounds
pub mod Crowded
pub mod Enough
pub mod Exact
pub mod Rows
pub mod Sound
pub mod Two
