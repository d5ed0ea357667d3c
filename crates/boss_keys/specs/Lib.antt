pub mod Limits
pub mod Admission
pub mod Tables
pub mod Reading
pub mod Lines
