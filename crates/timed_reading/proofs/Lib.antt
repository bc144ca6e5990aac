mod Inputs
mod Ranges
mod Rows
mod Splits
mod Texts
