pub mod Counting
pub mod Ends
pub mod Entries
pub mod Histories
pub mod Keeps
pub mod Lending
pub mod Resting
pub mod Sums
