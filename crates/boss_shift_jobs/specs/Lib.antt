pub mod Lines
pub mod Openings
pub mod ShiftJobs
pub mod Shifts
pub mod Telling
