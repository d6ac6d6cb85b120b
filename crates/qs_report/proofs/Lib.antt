pub mod Digits
pub mod Quick
pub mod SyncLines
pub mod SyncTables
pub mod UniqueTexts
pub mod UniqueOutcomes
pub mod UniqueEnds
pub mod MarkedLines
mod EndsApart
