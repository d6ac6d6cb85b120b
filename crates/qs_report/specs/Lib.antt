-- What has to be believed for the headline.
pub mod audit
-- What an auditor reads: the promises and the calls of the surface are said with these.
pub mod Report
pub mod GraphText
pub mod OutcomesText
pub mod EndsText
pub mod AlikeText
pub mod FrontsText
pub mod AnswerText
pub mod ValuesText
pub mod TallyText
pub mod EstimateText
pub mod SyncTable
pub mod SyncsText
pub mod Faults
-- What crates promise one another, what proofs use, and worked examples.
pub mod Lines
