-- What crates promise one another, what proofs use, and worked examples.
pub mod ClientHistories
