pub mod Bits
pub mod Ending
pub mod Flags
pub mod Slots
pub mod Tables
