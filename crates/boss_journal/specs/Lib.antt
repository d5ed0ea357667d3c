pub mod Places
pub mod Appends
pub mod Headings
pub mod Reads
pub mod Fronts
pub mod Opens
pub mod Looks
pub mod Clean
