pub mod Counted
pub mod Listed
pub mod Orderly
pub mod Passed
pub mod Placed
pub mod Shown
pub mod Taken
pub mod Ticked
