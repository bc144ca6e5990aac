mod Best
mod Rows
mod Still
