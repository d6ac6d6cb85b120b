pub mod Elements
pub mod Refusals
pub mod OneGraphJson
pub mod OneOutcomesJson
pub mod OneEndsJson
mod EndsApart
mod Replays
