pub mod Answered
pub mod Built
pub mod Options
pub mod Subcommands
pub mod Words
