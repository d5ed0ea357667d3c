pub mod InOrder
pub mod Values
pub mod Keys
