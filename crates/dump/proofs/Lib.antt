pub mod LineLaws
pub mod OutcomeLaws
pub mod RowLaws
