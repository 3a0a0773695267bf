pub mod Reading
pub mod Sessions
pub mod Explaining
pub mod Moving
