pub mod CallLemmas
pub mod Called
pub mod Ending
pub mod Growing
pub mod Lines
pub mod Pages
pub mod Sent
pub mod Turning
