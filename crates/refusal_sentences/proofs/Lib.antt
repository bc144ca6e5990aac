mod Commas
mod Told
