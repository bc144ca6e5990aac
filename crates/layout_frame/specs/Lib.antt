pub mod Looks
pub mod Spots
pub mod Legend
