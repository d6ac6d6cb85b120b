pub mod Powers
pub mod Lexemes
pub mod TokenCounts
pub mod Lists
pub mod ByLine
