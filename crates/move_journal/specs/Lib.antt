pub mod Answers
pub mod Counted
pub mod Heads
pub mod Printable
pub mod Replays
pub mod Words
