pub mod Loops
pub mod PairSteps
pub mod GeneratedBack
mod Rows
