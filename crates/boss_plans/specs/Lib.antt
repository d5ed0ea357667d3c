pub mod Keys
pub mod Wheres
pub mod Objects
pub mod Places
pub mod Plans
pub mod Lines
