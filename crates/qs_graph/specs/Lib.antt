-- What has to be believed for the headline.
pub mod audit
-- What an auditor reads: the promises and the calls of the surface are said with these.
pub mod Nodes
pub mod Drawn
pub mod Synced
pub mod Walk
pub mod Steps
-- What crates promise one another, and what proofs use.
pub mod Shapes
pub mod WellFormed
pub mod SoundNodes
pub mod WalkAlone
pub mod WalkLaws
pub mod Removal
