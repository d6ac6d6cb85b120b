pub mod Common
pub mod Parts
pub mod OneDrawing
pub mod Charting
pub mod Ends
mod EndNumbers
