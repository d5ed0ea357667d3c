pub mod Line
pub mod Wants
pub mod Proxy
pub mod Marks
