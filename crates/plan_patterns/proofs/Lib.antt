pub mod Along
pub mod Bases
pub mod GivenTexts
pub mod Members
pub mod Plain
mod Rows
pub mod Steps
pub mod Texts
