-- What has to be believed for the headline.
pub mod Reads
pub mod grammar
pub mod tokens
pub mod tree
