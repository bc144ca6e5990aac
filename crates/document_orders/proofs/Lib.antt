pub mod Adding
pub mod Certificates
pub mod Offering
pub mod Rows
