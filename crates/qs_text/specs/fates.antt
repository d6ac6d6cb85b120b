-- What an auditor reads: what became of requests is said with these.
pub mod Fates
pub mod Picked
