-- What has to be believed for the headline.
pub mod Operators
pub mod Places
pub mod Variables
