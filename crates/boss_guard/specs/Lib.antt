pub mod Guarding
pub mod GuardDrives
pub mod Making
pub mod Resting
pub mod Trying
