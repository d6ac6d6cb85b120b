-- What has to be believed for the headline.
pub mod Bound
pub mod Graphs
pub mod Names
pub mod Nodes
pub mod Paths
pub mod Steps
pub mod Synced
pub mod Walk
