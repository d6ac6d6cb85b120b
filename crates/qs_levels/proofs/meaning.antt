pub mod Lists
pub mod Weights
pub mod Reaching
pub mod Ends
pub mod GoingOnAlike
