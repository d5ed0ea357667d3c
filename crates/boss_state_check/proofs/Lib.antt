pub mod Tested
pub mod Ranked
pub mod Items
pub mod Alone
pub mod Told
pub mod Over
pub mod Whole
