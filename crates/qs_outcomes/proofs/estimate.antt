pub mod Words
pub mod Choosing
pub mod Rows
pub mod BlocksLeft
pub mod MostOrders
pub mod LeastOrders
