pub mod Places
pub mod Explains
pub mod StateLines
pub mod ExplainedLines
