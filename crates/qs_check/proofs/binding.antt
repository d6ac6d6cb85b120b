pub mod Binds
pub mod BoundTexts
