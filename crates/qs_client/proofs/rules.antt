pub mod Puts
pub mod CarriedValues
