pub mod Spi
pub mod Facts
