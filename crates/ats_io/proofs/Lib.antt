pub mod Adding
mod Failing
pub mod Giving
mod Rows
pub mod Taking
