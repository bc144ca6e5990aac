pub mod LaterTimes
mod Rows
