pub mod Common
pub mod Parts
pub mod SentFor
pub mod StretchEnds
pub mod FatesOfRows
pub mod FewShapes
pub mod FewLines
pub mod WholeStretches
mod ToldValues
