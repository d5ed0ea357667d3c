pub mod Earlier
mod GuardRows
pub mod Spaced
pub mod Stretches
pub mod Wants
