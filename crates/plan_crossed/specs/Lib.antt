pub mod Crossed
pub mod Numbered
pub mod Read
pub mod Said
