-- Laws of the script: refusals, what keeps the record whole, the contents as a list, the front's time, the words.
pub mod Refusals
pub mod Kept
pub mod Contents
pub mod Agrees
pub mod Words
