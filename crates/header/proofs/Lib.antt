pub mod Cases
pub mod LeadLaws
pub mod SettingsLaws
pub mod Bounds
pub mod HeaderLaws
