-- What has to be believed for the headline.
pub mod audit
-- What an auditor reads: the promises and the calls of the surface are said with these.
pub mod Limits
pub mod Lanes
pub mod LaneParts
-- What crates promise one another, what proofs use, and worked examples.
pub mod LaneLaws
pub mod LaneExamples
pub mod LaneViews
pub mod LaneRunLaws
pub mod Ring
pub mod Room
