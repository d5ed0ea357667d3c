pub mod Texts
pub mod OfEvents
pub mod OfStates
pub mod Sizes
