mod AddedNames
mod Mistakes
mod Names
mod Rows
mod TextNames
