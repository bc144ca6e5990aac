mod Listed
mod Naming
mod Parts
mod Rows
