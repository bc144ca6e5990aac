pub mod Arrivals
pub mod Histories
pub mod Rows
pub mod Standings
