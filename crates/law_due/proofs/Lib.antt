pub mod DueLemmas
pub mod Found
pub mod Keys
pub mod Ordering
pub mod Owners
pub mod ToldApart
