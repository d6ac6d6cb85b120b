pub mod Pairs
pub mod Counting
pub mod Shares
pub mod Adding
pub mod Listed
