pub mod Files
pub mod Shelf
pub mod Names
pub mod Stores
