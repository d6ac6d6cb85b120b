pub mod Spared
pub mod Ended
pub mod Stock
