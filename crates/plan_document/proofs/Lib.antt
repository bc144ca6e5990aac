mod Grown
mod Sums
