mod Kept
mod OneCause
mod Pushed
mod Rows
mod TableInForce
mod TooFar
