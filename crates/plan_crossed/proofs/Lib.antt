pub mod Carried
pub mod OfText
mod Rows
pub mod With
