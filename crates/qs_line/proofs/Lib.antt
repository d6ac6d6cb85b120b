pub mod PartLists
pub mod ListNumbers
pub mod Alike
pub mod Answering
pub mod Entries
pub mod Numbers
pub mod Claims
pub mod CommandWords
