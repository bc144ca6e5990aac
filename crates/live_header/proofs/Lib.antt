mod Rows
pub mod OpenedHeaders
pub mod ReadPieces
pub mod ScannedBytes
