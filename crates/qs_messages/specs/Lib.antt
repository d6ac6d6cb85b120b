-- What crates promise one another, what proofs use, and worked examples.
pub mod Told
-- Causes.
pub mod Spans
pub mod Sources
pub mod ExcessTold
pub mod Knowns
pub mod CheckTold
pub mod ReadTold
pub mod Near
-- Warnings.
pub mod Doings
pub mod Certainties
pub mod Warnings
pub mod WarningPlaces
-- Limits.
pub mod Extents
pub mod Greatest
pub mod Templates
pub mod LimitsText
