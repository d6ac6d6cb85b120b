pub mod Endings
pub mod Lookups
pub mod NamedOrders
