pub mod Copies
pub mod Numbering
