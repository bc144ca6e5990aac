pub mod Written
pub mod Entered
