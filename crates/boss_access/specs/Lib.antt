pub mod Limits
pub mod Patterns
pub mod Decisions
pub mod Keys
pub mod Reading
pub mod Lines
