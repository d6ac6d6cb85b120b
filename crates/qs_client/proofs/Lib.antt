pub mod BlockBeginnings
pub mod FreshMinds
pub mod MindRefinement
pub mod LaneSends
pub mod ReservedLists
