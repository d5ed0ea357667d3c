pub mod Given
pub mod Inside
pub mod Lines
pub mod Window
