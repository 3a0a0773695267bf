pub mod WordLaws
pub mod MemoryLaws
pub mod LengthLaws
