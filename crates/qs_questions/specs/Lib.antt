-- What an auditor reads: the promises and the calls of the surface are said with these.
pub mod Questions
pub mod NamedClients
pub mod Claims
pub mod SumValues
-- What crates promise one another, what proofs use, and worked examples.
pub mod Laws
pub mod Answering
pub mod Noting
