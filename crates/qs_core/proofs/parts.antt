pub mod ClientModels
pub mod CoreMinds
pub mod HandlerFronts
pub mod LaneStock
pub mod TurnedChunks
pub mod HandlerGifts
