pub mod SizeLaws
pub mod CommandLaws
