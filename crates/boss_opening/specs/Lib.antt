pub mod Again
pub mod UnderWay
pub mod Reading
pub mod Opens
pub mod Checks
