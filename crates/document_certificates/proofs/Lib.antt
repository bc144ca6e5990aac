mod More
mod Rows
