pub mod Named
pub mod Numbered
pub mod Called
pub mod Origin
pub mod Reached
pub mod Standing
