pub mod Letters
pub mod Suspects
