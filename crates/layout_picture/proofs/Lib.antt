pub mod Adding
pub mod Coming
pub mod Layering
pub mod Marked
pub mod RedTrains
pub mod Rows
pub mod Some
pub mod TrainShapes
