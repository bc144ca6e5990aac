pub mod Nothing
pub mod Shares
pub mod Tracks
pub mod Written
