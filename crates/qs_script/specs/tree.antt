-- What an auditor reads: the promises and the calls of the surface are said with these.
pub mod Tree
pub mod Form
-- What crates promise one another, what proofs use, and worked examples.
pub mod TreeCode
pub mod Views
pub mod SizeDecreases
pub mod BlockCode
pub mod ScriptCode
pub mod Sizes
