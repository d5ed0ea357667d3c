pub mod Torn
pub mod Runs
pub mod Legs
pub mod Kept
pub mod Picked
pub mod Crash
pub mod Fronts
