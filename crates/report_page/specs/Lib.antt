pub mod Markup
pub mod Page
pub mod Sections
