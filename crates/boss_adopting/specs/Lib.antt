pub mod Adopts
pub mod Counts
pub mod Least
pub mod Places
