pub mod Replays
pub mod Prefixes
pub mod OfRecords
pub mod OfKinds
pub mod Disks
pub mod PairRows
