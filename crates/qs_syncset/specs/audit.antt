-- What has to be believed for the headline.
pub mod Coalesced
pub mod Codes
pub mod Modes
pub mod held
