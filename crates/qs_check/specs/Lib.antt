-- What has to be believed for the headline.
pub mod audit
-- What an auditor reads: the promises and the calls of the surface are said with these.
pub mod Checked
pub mod TextLoads
pub mod WellFormed
-- What crates promise one another, and what proofs use.
pub mod Excess
pub mod fault_places
pub mod resolution
pub mod anchors
