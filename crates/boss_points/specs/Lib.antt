pub mod Keys
pub mod Seen
pub mod Reading
pub mod Given
pub mod Fed
pub mod Kept
