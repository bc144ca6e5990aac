pub mod Keeping
pub mod Moving
pub mod Reaching
pub mod Rows
pub mod Turns
