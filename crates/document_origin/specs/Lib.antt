pub mod Origin
pub mod Words
