pub mod Puts
pub mod Listing
pub mod Later
