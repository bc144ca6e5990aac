pub mod Adapted
pub mod Bytes
pub mod Faults
pub mod Memory
