pub mod Devices
pub mod Lanes
pub mod Parts
pub mod Waits
pub mod Works
