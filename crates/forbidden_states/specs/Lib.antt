pub mod Completing
pub mod Forbid
