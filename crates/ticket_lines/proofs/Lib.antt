pub mod Counted
pub mod Heads
pub mod Histories
pub mod Next
mod Rows
