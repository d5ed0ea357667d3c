pub mod Orders
pub mod Images
pub mod Rests
pub mod Causes
pub mod Reads
pub mod Forces
