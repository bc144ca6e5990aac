pub mod Adding
pub mod Counting
pub mod Facts
pub mod Former
pub mod Kinds
pub mod Sections
pub mod Used
