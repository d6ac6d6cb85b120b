-- What has to be believed for the headline.
pub mod Blocks
pub mod Legend
pub mod Places
pub mod RunSvg
pub mod Shapes
pub mod Stretches
pub mod Words
