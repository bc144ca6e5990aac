pub mod BlockRows
pub mod LevelRows
pub mod OnceRows
pub mod Pushed
pub mod Rows
pub mod Threefold
pub mod TitleRows
