pub mod Heaps
pub mod Indexed
pub mod Kept
pub mod Held
pub mod Laid
