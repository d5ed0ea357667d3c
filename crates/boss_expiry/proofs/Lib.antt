pub mod Beating
pub mod Ending
pub mod Turns
