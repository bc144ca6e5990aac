mod Rows
pub mod Spell
pub mod Verdicts
