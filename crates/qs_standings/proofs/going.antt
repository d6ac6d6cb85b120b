pub mod GoingSets
