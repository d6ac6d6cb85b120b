-- What has to be believed for the headline.
pub mod Configurations
pub mod Following
pub mod Interaction
pub mod Reduced
pub mod Serial
pub mod Solo
