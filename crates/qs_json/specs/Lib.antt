-- What has to be believed for the headline.
pub mod audit
-- What an auditor reads: the promises and the calls of the surface are said with these.
pub mod Reached
pub mod RunJson
pub mod FaultJson
pub mod OutcomesJson
pub mod EndsJson
pub mod AlikeJson
pub mod FrontsJson
pub mod AnswerJson
pub mod ValuesJson
pub mod TallyJson
pub mod EstimateJson
pub mod SyncsJson
pub mod GraphJson

-- What crates promise one another, what proofs use, and worked examples.
