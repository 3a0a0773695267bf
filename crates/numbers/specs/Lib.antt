pub mod Bytes
pub mod Values
pub mod Examples
pub mod Step
pub mod Read
pub mod Memory
