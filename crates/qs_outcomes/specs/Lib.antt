-- What an auditor reads: the promises and the calls of the surface are said with these.
pub mod LeastOrders
pub mod Outcomes
pub mod Reached
pub mod Answers
-- What crates promise one another, what proofs use, and worked examples.
pub mod Searches
pub mod Search
pub mod throughout
pub mod alike
pub mod estimate
