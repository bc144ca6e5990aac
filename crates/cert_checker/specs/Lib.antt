pub mod Cut
pub mod Faults
pub mod Places
pub mod Walked
