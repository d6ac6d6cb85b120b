-- What has to be believed for the headline.
pub mod Limits
pub mod Tokens
