pub mod Calls
pub mod Gates
pub mod Groups
pub mod Keeping
pub mod Passes
pub mod Together
pub mod Walking
