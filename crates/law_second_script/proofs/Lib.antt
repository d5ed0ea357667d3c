pub mod Answered
pub mod SecondRows
