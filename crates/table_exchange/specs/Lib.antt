pub mod Admitted
pub mod Arrivals
pub mod Steps
pub mod Tables
