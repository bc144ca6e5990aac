pub mod Protected
pub mod Words
