-- What has to be believed for the headline.
pub mod ClientModel
pub mod ClientRuns
pub mod rules
pub mod run
