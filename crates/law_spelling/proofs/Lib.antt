pub mod Values
pub mod Counting
pub mod Stored
pub mod Events
pub mod Parts
pub mod OfEvents
pub mod OfStates
