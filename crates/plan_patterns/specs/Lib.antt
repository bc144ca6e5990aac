pub mod Expanded
pub mod Numbered
pub mod Parts
pub mod Ways
