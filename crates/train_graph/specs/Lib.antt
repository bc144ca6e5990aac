pub mod Blocks
pub mod Graph
pub mod Layers
pub mod Marks
pub mod Places
pub mod Rows
pub mod Subject
pub mod Titles
