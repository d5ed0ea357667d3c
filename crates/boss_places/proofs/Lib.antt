pub mod Ports
pub mod Members
