-- What has to be believed for the headline.
pub mod Binding
pub mod Kinds
pub mod Limits
pub mod Loads
pub mod Numbering
pub mod Program
pub mod Sound
pub mod Statements
pub mod Values
