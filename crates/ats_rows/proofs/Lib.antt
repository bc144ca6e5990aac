mod InMemory
mod Rows
