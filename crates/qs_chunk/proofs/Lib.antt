pub mod LaneFronts
pub mod LaneMatch
pub mod LaneRuns
pub mod Rings
pub mod Rooms
