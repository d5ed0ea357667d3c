pub mod Causes
pub mod Devices
pub mod Ends
pub mod InTime
pub mod Keepers
pub mod Outside
pub mod Runs
pub mod Scripts
