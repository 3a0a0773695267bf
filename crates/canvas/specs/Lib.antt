pub mod Picture
pub mod Paint
pub mod Copy
