pub mod Fronts
pub mod Judging
mod Rows
