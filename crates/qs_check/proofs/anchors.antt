pub mod Tokens
mod Faults
mod Statements
pub mod Within
mod Walks
pub mod BlockNumbers
