-- What has to be believed for the headline.
pub mod audit
-- What an auditor reads: the promises and the calls of the surface are said with these.
pub mod Statements
pub mod Loads
pub mod Limits
pub mod Numbering
pub mod Program
pub mod Sound
-- What crates promise one another, what proofs use, and worked examples.
pub mod StatementsCode
pub mod Views
pub mod SizeDecreases
pub mod Hashing
pub mod Shapes
