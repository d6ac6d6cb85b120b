-- What has to be believed for the headline.
pub mod Isolation
pub mod JournalRooms
pub mod Played
pub mod Schedule
