pub mod RunActs
pub mod DoneDeeds
pub mod ThreadActs
