pub mod Frames
pub mod Fates
pub mod Places
pub mod Talks
pub mod Devices
