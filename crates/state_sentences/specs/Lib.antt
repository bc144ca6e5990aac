pub mod Named
pub mod Sections
pub mod Circle
pub mod Explanation
pub mod Knot
pub mod KnotWords
pub mod Text
pub mod Tells
