-- What has to be believed for the headline.
pub mod Act
pub mod Journals
pub mod Limits
pub mod Objects
pub mod Operations
pub mod Parts
pub mod Rows
