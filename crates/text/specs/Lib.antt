pub mod Ascii
pub mod Putting
pub mod Spans
pub mod Numerals
pub mod HexBytes
pub mod Tables
