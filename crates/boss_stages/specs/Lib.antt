pub mod Stages
pub mod Entries
