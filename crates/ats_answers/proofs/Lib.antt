pub mod AcceptedInput
pub mod AcceptedText
pub mod CutRows
mod Cutting
mod Derived
mod Forward
pub mod Generated
pub mod GoingOn
mod GoodJournals
mod LightMarked
pub mod Made
mod MakeRows
pub mod Outside
pub mod PairFaults
mod Repairable
mod Repaired
mod Rows
pub mod Simulated
mod SmallNodes
pub mod Suited
mod TableRows
mod Turned
pub mod WeaveRows
