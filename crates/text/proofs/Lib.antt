-- The laws that proofs cite.
pub mod Putter
pub mod After
pub mod Runs
pub mod Sames
pub mod Places
pub mod Digits
pub mod Parts
pub mod HexPairs
pub mod RoundTrip
pub mod Examples
pub mod Rows
