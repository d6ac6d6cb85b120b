-- What has to be believed for the headline.
pub mod Apart
pub mod Command
pub mod Limits
pub mod Line
pub mod Named
pub mod Parts
pub mod RunLines
