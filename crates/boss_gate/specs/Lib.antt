pub mod Allowed
pub mod Gates
pub mod Whole
