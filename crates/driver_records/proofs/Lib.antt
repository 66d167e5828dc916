-- Lines (the lines of some bytes, record by record), Turns (what a turn of the loop comes to), Whole (an input that lies in memory as a whole).
pub mod Lines
pub mod Turns
pub mod Whole
