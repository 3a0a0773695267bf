pub mod Words
pub mod Memory
pub mod Examples
