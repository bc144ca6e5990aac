pub mod HeldPoints
pub mod IllegalWords
