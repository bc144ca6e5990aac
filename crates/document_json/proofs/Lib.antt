mod Rows
pub mod OneMore
pub mod Timed
pub mod Refusals
pub mod TimesLemmas
pub mod StartLemmas
pub mod TableLemmas
pub mod LayoutBack
pub mod WaysBack
pub mod TableBack
mod Listed
pub mod NamedLemmas
pub mod WrittenBack
pub mod Taken
pub mod Marked
pub mod Remade
pub mod MigratedLemmas
pub mod MoreSections
pub mod FormedDoc
pub mod Offered
pub mod KeptLemmas
pub mod Retimed
