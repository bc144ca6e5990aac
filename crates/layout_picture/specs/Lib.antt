pub mod Marks
pub mod Red
pub mod Arrows
pub mod Areas
pub mod Drawn
pub mod Answer
