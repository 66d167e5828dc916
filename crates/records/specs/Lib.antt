pub mod Le
pub mod Layout
pub mod Kinds
pub mod Decoded
pub mod Encoded
pub mod Told
pub mod Values
