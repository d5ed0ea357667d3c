pub mod Lines
pub mod Telling
pub mod Faults
pub mod Refusals
pub mod Held
pub mod Nexts
