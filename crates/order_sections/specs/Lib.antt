pub mod Found
pub mod Grids
pub mod Orders
pub mod Pairs
pub mod Whole
