pub mod Nearest
pub mod Scales
