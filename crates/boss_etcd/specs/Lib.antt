pub mod Says
pub mod Requests
pub mod Asking
pub mod Heads
pub mod Commits
pub mod Pages
pub mod Ranges
