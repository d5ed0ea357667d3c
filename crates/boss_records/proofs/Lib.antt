pub mod Items
pub mod Bytes
pub mod Whole
pub mod Signed
pub mod Texts
