mod Rows
mod SuspectRows
