pub mod Nexts
pub mod ByWords
