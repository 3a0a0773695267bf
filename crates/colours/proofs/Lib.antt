pub mod Laws
pub mod Filling
pub mod Counting
pub mod Blocks
pub mod StandardLaws
pub mod LegendLaws
pub mod MarkLaws
