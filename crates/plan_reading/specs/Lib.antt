pub mod Agreeing
pub mod Held
pub mod Places
pub mod Said
pub mod Timed
pub mod Zoned
