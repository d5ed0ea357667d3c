pub mod Compact
pub mod Read
pub mod Trees
