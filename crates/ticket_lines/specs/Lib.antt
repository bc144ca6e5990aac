pub mod Merging
pub mod Tickets
