-- What has to be believed for the headline.
pub mod Held
