pub mod Adding
pub mod Agreements
pub mod Choices
pub mod DeviceLemmas
pub mod InTurn
mod LaneRows
pub mod Lists
pub mod Moments
pub mod Owners
pub mod PartLemmas
pub mod Readers
pub mod WaitLemmas
pub mod Wants
