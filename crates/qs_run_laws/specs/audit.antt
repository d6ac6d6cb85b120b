-- What has to be believed for the headline.
pub mod Outcomes
pub mod ThreadRuns
