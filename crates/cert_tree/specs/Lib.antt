pub mod Code
pub mod Open
pub mod Refused
pub mod Spelling
