pub mod Bins
pub mod Told
pub mod Facts
