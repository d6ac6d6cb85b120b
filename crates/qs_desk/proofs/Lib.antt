pub mod Orders
pub mod Pushing
pub mod Starts
pub mod Steps
pub mod Wakings
