pub mod Doubts
pub mod Early
pub mod Firsts
pub mod Least
pub mod Links
pub mod Members
pub mod Rounds
pub mod Wanting
