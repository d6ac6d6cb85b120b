-- What crates promise one another, what proofs use, and worked examples.
pub mod Workers
pub mod Prepared
pub mod Collected
pub mod Starts
pub mod Groups
pub mod client
pub mod handler
pub mod many
