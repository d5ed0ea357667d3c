pub mod Checking
pub mod Coming
pub mod Completing
pub mod Following
pub mod Moving
pub mod Reaches
