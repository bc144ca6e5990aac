mod All
mod AllKinds
mod Bytes
