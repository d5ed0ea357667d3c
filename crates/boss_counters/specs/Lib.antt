pub mod Matters
pub mod Rule
pub mod Steps
