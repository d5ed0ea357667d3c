pub mod Searches
pub mod Tests
pub mod Whole
