pub mod TreeDepths
pub mod Corners
pub mod Settling
pub mod Turns
pub mod ClientTurns
pub mod Entering
pub mod BlocksPlayed
