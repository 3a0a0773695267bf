pub mod Argument
pub mod Advance
pub mod Run
pub mod Blend
