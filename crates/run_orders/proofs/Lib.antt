mod Adding
mod Fronts
mod Inputs
mod Rows
