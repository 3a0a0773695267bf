pub mod Laws
pub mod Fields
pub mod Reading
pub mod Repeat
pub mod MemoryLaws
