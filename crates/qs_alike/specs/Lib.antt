-- What an auditor reads: the promises and the calls of the surface are said with these.
pub mod Changes
pub mod Apart
pub mod Arranged
pub mod Followed
-- What crates promise one another, and what proofs use.
pub mod Keys
pub mod Texts
