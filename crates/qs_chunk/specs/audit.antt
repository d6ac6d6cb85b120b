-- What has to be believed for the headline.
pub mod Batch
pub mod LaneParts
pub mod LaneRun
pub mod Lanes
pub mod Limits
pub mod Runs
