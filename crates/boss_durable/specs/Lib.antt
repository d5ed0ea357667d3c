pub mod Begun
pub mod Confirmed
pub mod Reached
pub mod Taken
pub mod Words
pub mod Redone
pub mod Followed
