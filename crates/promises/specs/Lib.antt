pub mod Readers
pub mod Sixdump
pub mod Refusals
pub mod BinReadings
