-- What has to be believed for the headline.
pub mod audit
-- What an auditor reads: the promises and the calls of the surface are said with these.
pub mod Limits
pub mod Parts
pub mod Named
pub mod Line
pub mod RunLines
pub mod Claims
pub mod ScriptClaims
-- What crates promise one another, what proofs use, and worked examples.
pub mod Numbers
pub mod language
