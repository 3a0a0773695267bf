pub mod Dry
pub mod Need
pub mod Explained
pub mod Meant
