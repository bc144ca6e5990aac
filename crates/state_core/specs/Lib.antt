pub mod Core
pub mod Guard
pub mod Keeper
pub mod Least
pub mod Trap
