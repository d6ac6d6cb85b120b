-- What has to be believed for the headline.
pub mod Checked
pub mod fault_places
pub mod resolution
