pub mod Units
pub mod Scaling
pub mod Rounding
pub mod Held
pub mod Between
mod Rows
