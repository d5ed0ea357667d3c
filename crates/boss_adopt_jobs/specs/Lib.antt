pub mod Adoptions
pub mod AdoptJobs
pub mod Loads
pub mod Openings
pub mod Telling
