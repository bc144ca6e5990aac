pub mod Answering
pub mod Journals
pub mod News
pub mod Replies
pub mod States
