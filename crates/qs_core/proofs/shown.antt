pub mod CoreReadings
pub mod CoreShowing
pub mod CoreRows
