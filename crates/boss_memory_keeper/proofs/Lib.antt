pub mod Groups
pub mod Keepers
pub mod Steps
