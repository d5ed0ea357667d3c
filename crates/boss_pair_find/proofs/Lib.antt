pub mod Apart
pub mod Orders
pub mod Told
pub mod Begun
pub mod FoundPairs
pub mod Syncs
pub mod Made
