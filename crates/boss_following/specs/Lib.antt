pub mod Within
pub mod Places
pub mod Items
pub mod Steps
pub mod Moves
pub mod Ends
pub mod Owns
