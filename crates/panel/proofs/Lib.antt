pub mod Rows
pub mod Turns
pub mod Lit
pub mod Once
pub mod Kept
pub mod Whole
pub mod Bytes
pub mod RowsRead
