pub mod Acts
pub mod Given
pub mod Guards
pub mod Spacing
pub mod Turns
