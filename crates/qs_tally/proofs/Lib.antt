pub mod Common
pub mod Places
pub mod Ends
pub mod Counts
pub mod Listing
pub mod Goes
