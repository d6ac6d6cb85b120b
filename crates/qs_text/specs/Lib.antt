-- What has to be believed for the headline.
pub mod audit
-- What an auditor reads: the promises and the calls of the surface are said with these.
pub mod Texts
pub mod Blocks
pub mod Words
pub mod Variables
pub mod SortedTexts
pub mod TellApart
-- What crates promise one another, what proofs use, and worked examples.
pub mod Watched
pub mod fates
