pub mod Bookable
pub mod Books
pub mod Gathered
pub mod Passed
