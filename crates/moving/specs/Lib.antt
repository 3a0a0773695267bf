pub mod Carry
pub mod Session
pub mod DcsSession
pub mod Moves
