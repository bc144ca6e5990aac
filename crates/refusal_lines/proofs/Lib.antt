mod Commas
mod Labels
mod Rows
