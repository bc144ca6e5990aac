pub mod Shapes
pub mod Text
pub mod Tree
