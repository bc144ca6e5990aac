pub mod Counted
pub mod Doubling
pub mod Making
pub mod Numbering
pub mod Seen
