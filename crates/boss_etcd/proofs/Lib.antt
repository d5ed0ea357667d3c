pub mod Unclear
pub mod Texts
pub mod Asks
pub mod Commits
pub mod Pages
