pub mod ReaderLaws
pub mod TakeLaws
pub mod Answered
pub mod Turns
pub mod Taking
pub mod Ends
pub mod Copies
pub mod Promise
