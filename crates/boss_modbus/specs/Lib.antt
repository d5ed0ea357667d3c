pub mod Frames
pub mod Places
pub mod Fates
pub mod Writes
