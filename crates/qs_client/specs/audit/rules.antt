-- What has to be believed for the headline.
pub mod Client
pub mod Outgoings
