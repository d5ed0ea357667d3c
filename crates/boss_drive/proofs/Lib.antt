pub mod Asking
pub mod Gains
pub mod Laning
pub mod Turns
