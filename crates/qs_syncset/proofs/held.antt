pub mod Paths
pub mod Bits
pub mod Transfer
pub mod Visits
pub mod HeldOrNot
