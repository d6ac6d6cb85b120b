pub mod CountRows
