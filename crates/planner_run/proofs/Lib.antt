mod Certified
mod Pages
mod Protected
mod Remarked
mod Standing
mod Suits
mod Verdicts
mod Weaker
