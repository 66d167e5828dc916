pub mod Adc
