pub mod Log
pub mod Kinds
pub mod InForce
pub mod Versions
