pub mod Accepting
pub mod Refusing
pub mod Replaying
