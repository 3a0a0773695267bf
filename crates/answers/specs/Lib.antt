pub mod Adler
pub mod Numbers
pub mod Ratio
pub mod Registers
