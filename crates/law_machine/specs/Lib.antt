pub mod Commands
pub mod Heard
pub mod Once
pub mod Ended
pub mod Draining
