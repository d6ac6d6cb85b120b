-- What has to be believed for the headline.
pub mod AsIfSerial
pub mod Finished
pub mod Runs
pub mod Undisturbed
