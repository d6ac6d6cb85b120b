pub mod Trees
pub mod Sizes
