pub mod Walks
pub mod Steps
pub mod Inner
pub mod ScopesInBlocks
pub mod FinePlaces
pub mod ListedNames
