pub mod Drives
pub mod Driving
pub mod Looks
pub mod Wants
