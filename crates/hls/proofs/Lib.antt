-- The laws that the functions' proofs cite.
pub mod Whole
pub mod Steps
pub mod Near
pub mod Sweep
pub mod Channels
pub mod Beside
