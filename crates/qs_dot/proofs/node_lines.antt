pub mod Counts
pub mod StatementNodes
pub mod TextLines
pub mod LineTokens
pub mod NodeCounts
pub mod LinesFromOne
