pub mod Zips
pub mod FirstEntries
pub mod TextParts
pub mod AgreedFronts
