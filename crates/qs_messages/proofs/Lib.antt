mod Standing
mod Anchored
mod FormTold
pub mod Does
mod CertaintyLaws
pub mod CertaintyAll
pub mod Below
mod Searching
pub mod Levels
pub mod Steps
