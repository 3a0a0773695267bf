pub mod Text
pub mod Stand
pub mod Examples
