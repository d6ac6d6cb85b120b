-- What has to be believed for the headline.
pub mod audit
-- What an auditor reads: the promises and the calls of the surface are said with these.
pub mod Handler
pub mod HandlerRuns
-- What crates promise one another, what proofs use, and worked examples.
pub mod Stages
pub mod HandlerLaws
pub mod HandlerExamples
pub mod HandlerLanes
pub mod HandlerTurns
