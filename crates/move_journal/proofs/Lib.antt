pub mod Again
pub mod Alone
pub mod Begins
pub mod Forms
pub mod Fronts
pub mod Lookups
pub mod Named
pub mod Once
pub mod OneAnswer
pub mod OneBadLine
pub mod OneLack
pub mod Outcomes
mod ReplayRows
mod Rows
pub mod Samples
pub mod SomeAnswer
pub mod SomeBadLine
pub mod SomeLack
pub mod Splitting
pub mod Written
