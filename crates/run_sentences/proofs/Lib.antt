pub mod NeverBoth
pub mod Offers
pub mod Rows
pub mod RunLines
