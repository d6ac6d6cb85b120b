-- What has to be believed for the headline.
pub mod Due
pub mod Headline
pub mod RunReports
