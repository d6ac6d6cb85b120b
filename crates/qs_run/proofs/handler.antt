pub mod Tasks
pub mod ServedTasks
pub mod Passed
