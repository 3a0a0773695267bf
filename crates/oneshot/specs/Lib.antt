pub mod Search
pub mod OneShot
