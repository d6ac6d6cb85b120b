-- What an auditor reads: the promises and the calls of the surface are said with these.
pub mod NextActs
pub mod Holdings
pub mod BlockSizes
pub mod ClientOfRun
pub mod RunState
-- What crates promise one another, what proofs use, and worked examples.
pub mod Beginning
pub mod BetweenActs
pub mod Running
