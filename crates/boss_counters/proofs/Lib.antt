pub mod Keeps
pub mod Phases
