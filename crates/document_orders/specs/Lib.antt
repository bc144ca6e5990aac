pub mod Ordered
