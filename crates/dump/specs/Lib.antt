pub mod Dump
pub mod Fields
pub mod Example
pub mod Outcome
