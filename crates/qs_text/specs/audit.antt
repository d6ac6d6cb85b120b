-- What has to be believed for the headline.
pub mod Texts
pub mod Words
pub mod fates
