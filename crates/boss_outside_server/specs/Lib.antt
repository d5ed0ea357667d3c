pub mod Clocks
pub mod Either
pub mod Hosts
pub mod Log
pub mod Pauses
pub mod Tasks
pub mod Waits
