pub mod MoveLaws
pub mod CarryLaws
pub mod Paints
pub mod Grows
pub mod LargerStep
pub mod LargerGround
pub mod Again
