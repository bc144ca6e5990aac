pub mod Awaiting
pub mod Choosing
pub mod Due
pub mod Joining
mod RowsOfWaiting
pub mod Saying
mod WorkedRows
pub mod Telling
