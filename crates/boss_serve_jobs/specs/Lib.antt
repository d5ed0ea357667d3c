pub mod Keying
pub mod Preparing
pub mod Ruling
pub mod ServeJobs
pub mod Serving
