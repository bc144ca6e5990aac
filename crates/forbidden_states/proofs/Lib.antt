pub mod Apart
pub mod Changes
pub mod Growing
pub mod Members
pub mod Over
pub mod Rows
pub mod Shares
pub mod Tables
