pub mod AskedDues
pub mod ClaimsDues
pub mod Crossing
pub mod Dues
pub mod FrontsDues
pub mod Headlines
pub mod LineDues
pub mod OtherDues
pub mod SyncDues
pub mod UniqueReports
mod Gathering
