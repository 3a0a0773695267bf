pub mod ReachLaws
pub mod RunSteps
pub mod BlendLaws
pub mod RowLaws
pub mod RunLaws
pub mod ArgumentLaws
pub mod AdvanceLaws
