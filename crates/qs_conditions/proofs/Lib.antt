pub mod Lexer
pub mod Chains
pub mod Counts
pub mod Complete
pub mod Sound
pub mod ReadTexts
