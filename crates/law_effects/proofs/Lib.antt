pub mod Parts
pub mod Changed
pub mod Concerned
pub mod Flags
pub mod Redone
pub mod Lasting
pub mod Found
pub mod Early
