pub mod ClientPreserved
pub mod OnePlace
pub mod FrameMoves
pub mod StoredClients
