-- What has to be believed for the headline.
pub mod audit
-- What an auditor reads: the promises and the calls of the surface are said with these.
pub mod Codes
pub mod SyncCounts
-- What crates promise one another, and what proofs use.
pub mod Shapes
pub mod SoundSynced
pub mod CodeLaws
pub mod held
