mod SameLists
mod Beginnings
mod Different
mod Alike
mod Rows
