mod Offered
mod Opening
mod Rows
