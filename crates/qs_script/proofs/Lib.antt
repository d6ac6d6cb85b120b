pub mod Loops
pub mod PassedLines
pub mod ReadTexts
pub mod Bytes
