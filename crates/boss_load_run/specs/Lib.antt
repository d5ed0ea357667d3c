pub mod Lines
pub mod Load
pub mod Plant
