pub mod HandlerActs
pub mod LaneTurns
pub mod Runs
pub mod RunTurns
pub mod ServingStages
