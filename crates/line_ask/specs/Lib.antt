pub mod WordsIn
pub mod Numbers
pub mod Asks
