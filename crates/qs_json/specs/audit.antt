-- What has to be believed for the headline.
pub mod Pieces
pub mod Replay
pub mod RunJson
pub mod Variables
