pub mod Added
mod Ashore
mod Boards
mod Done
mod Ended
mod Gone
mod Grouped
mod Grown
mod Leaves
mod Lists
mod RoundRows
mod Rows
mod SeenRows
mod Worked
