pub mod Answer
pub mod Crossings
pub mod Faults
pub mod Numbers
pub mod Sections
pub mod Shapes
pub mod Stands
pub mod States
