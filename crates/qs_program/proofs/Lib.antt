pub mod StatementLists
pub mod Loads
pub mod Found
pub mod Bounds
