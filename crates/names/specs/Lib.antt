pub mod Ascii
pub mod Told
pub mod Words
pub mod Numbers
pub mod Midi
pub mod Names
pub mod Plain
