pub mod Accepting
pub mod Hashing
pub mod Journals
pub mod Naming
pub mod Opening
pub mod Reading
pub mod Refusing
pub mod Scan
