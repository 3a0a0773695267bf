pub mod Results
pub mod Session
pub mod Core
pub mod Meant
pub mod History
pub mod Memory
