pub mod Before
pub mod Causes
pub mod Found
pub mod Waits
