pub mod Answer
pub mod Sections
pub mod Stands
pub mod Tracks
