pub mod Answered
mod Begun
mod CauseRows
mod Completing
mod Drilled
mod Drilling
mod Finished
mod Inputs
mod OneTable
pub mod Reading
mod Resumed
mod Rows
mod RunRows
mod Runs
pub mod Woven
mod Writing
