pub mod BlocksLeft
pub mod Bounded
pub mod Finished
pub mod FirstLeft
pub mod RequestCounts
pub mod Rounds
pub mod SmallBounds
pub mod Stuck
