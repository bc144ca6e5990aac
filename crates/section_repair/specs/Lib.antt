pub mod Claims
pub mod Core
pub mod Joining
pub mod Repairs
pub mod Rounds
