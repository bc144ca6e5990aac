pub mod ConnectionsTaken
pub mod Made
pub mod Rows
pub mod SectionsTaken
pub mod Sequence
pub mod Ties
pub mod TrainShares
