-- Laws of the record layout, and the theorems: RoundTrip (encode, then decode), Reencoded (decode, then encode),
-- Progress (where decoding goes on, what is broken, where it ends), Eight (when a record's number is RECORD) and
-- Alike (whatever lies around a record).
pub mod Numbers
pub mod Places
pub mod NineKinds
pub mod Kept
pub mod Written
pub mod Inverse
pub mod RoundTrip
pub mod Reencoded
pub mod Progress
pub mod Eight
pub mod Found
pub mod Alike
mod Examples
