pub mod Fed
pub mod Came
pub mod Lifted
pub mod Completed
