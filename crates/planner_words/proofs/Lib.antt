mod Parses
mod Refusals
mod Rows
