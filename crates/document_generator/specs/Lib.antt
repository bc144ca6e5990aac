pub mod Draws
pub mod Pairs
pub mod Pieces
pub mod Generated
pub mod Seen
