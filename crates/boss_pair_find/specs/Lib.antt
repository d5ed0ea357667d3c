pub mod Holds
pub mod Refusals
pub mod Two
pub mod Finds
pub mod Makes
