mod Different
mod LegendWords
mod Rows
