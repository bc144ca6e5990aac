pub mod Connecting
pub mod Keeping
pub mod Marking
