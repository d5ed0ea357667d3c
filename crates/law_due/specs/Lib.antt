pub mod Due
pub mod Playing
pub mod Telling
