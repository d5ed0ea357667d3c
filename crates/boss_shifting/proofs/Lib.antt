pub mod Least
pub mod Over
