-- What has to be believed for the headline.
pub mod audit
-- What an auditor reads: the promises and the calls of the surface are said with these.
pub mod Outcomes

-- What crates promise one another, what proofs use, and worked examples.
