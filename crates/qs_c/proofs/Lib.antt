pub mod Headlines
