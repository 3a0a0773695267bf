pub mod Packing
pub mod Standard
pub mod Palette
pub mod Marks
pub mod Legend
