mod Rows
pub mod AnsweredLines
pub mod AnsweredPieces
pub mod Conversations
pub mod HeardLines
pub mod ServedBytes
pub mod WholeLines
