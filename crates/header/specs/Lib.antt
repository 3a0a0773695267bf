pub mod Results
pub mod Lead
pub mod Settings
